pub mod Describe
pub mod Description
pub mod RayStep
