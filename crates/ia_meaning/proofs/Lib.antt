pub mod Signs
pub mod Products
