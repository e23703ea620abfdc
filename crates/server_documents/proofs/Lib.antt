mod Changing
mod Closing
mod Entries
mod Limits
mod Sending
