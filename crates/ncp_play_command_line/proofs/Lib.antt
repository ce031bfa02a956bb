mod Flags
mod Numbers
mod Subcommands
mod Words
