mod Commands
mod Chained
mod Replies
