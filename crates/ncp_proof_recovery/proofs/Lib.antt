mod ManyPaying
pub mod ManyGoing
pub mod ManyResting
mod Others
mod Lines
mod Anew
pub mod Recovering
pub mod Recovered
mod Fallen
pub mod InNotes
mod EchoUnderway
mod EchoSteps
pub mod EchoesEnd
mod CallingBack
mod CalledBack
pub mod Returned
