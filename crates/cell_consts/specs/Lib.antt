pub mod Consts
pub mod Params
