mod Listed
mod Pushing
mod Picked
