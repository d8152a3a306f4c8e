pub mod CheckPlan
pub mod Checked
pub mod CheckLaws
pub mod WonLaws
pub mod SameClaims
