mod Filling
mod Listing
mod Kept
mod Widths
mod Whole
