-- What the program's contracts speak of.

-- how a program ends that has no answer
pub mod Failure
