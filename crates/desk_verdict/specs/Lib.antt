pub mod StepLines
pub mod Verdict
