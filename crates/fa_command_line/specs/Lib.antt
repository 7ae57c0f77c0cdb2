-- What the contracts speak of.

-- what a parsed command line says
pub mod CommandLine
