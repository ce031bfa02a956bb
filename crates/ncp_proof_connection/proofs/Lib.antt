pub mod Lines
pub mod Joint
mod Numbers
pub mod Senders
pub mod Receivers
mod Standing
mod SenderActs
mod ReceiverActs
pub mod Moments
pub mod Whole
pub mod Outliving
pub mod Calm
mod InOrder
pub mod Projecting
pub mod Clear
pub mod Linking
pub mod LinkSteps
pub mod Found
pub mod Named
