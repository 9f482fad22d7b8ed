mod Found
mod Limited
mod Tested
mod Traced
