pub mod Events
pub mod Items
pub mod Adding
pub mod Striking
pub mod Shapes
pub mod Firsts
pub mod BooksAt
pub mod Seeing
pub mod LinkOrder
pub mod Passing
pub mod Parted
pub mod Following
pub mod Reached
pub mod Showing
mod Counting
