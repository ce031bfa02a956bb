pub mod ManyFound
mod Tellings
mod Traces
mod Places
mod Staging
