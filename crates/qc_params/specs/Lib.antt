pub mod ParametersFit
pub mod ParametersGrammar
pub mod ParametersReading
pub mod ParametersSpelling
pub mod Resumption
