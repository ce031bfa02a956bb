-- The texts of explanations: near names, the words of scripts, and mistakes.
pub mod Arguments
pub mod Bytes
pub mod Headers
pub mod Hosts
pub mod Lines
pub mod Names
pub mod Near
pub mod Printed
pub mod Signs
pub mod Spelling
pub mod Printing
pub mod Verbs
