pub mod Accepted
pub mod Office
pub mod Replies
pub mod Keeping
pub mod Requests
pub mod Replays
pub mod Sound
pub mod Laws
