mod Held
mod Known
mod Links
mod Reviewed
mod Stored
