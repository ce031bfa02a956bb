mod Texts
mod OneConnection
mod Adding
mod Noting
mod Quiet
mod Transferring
