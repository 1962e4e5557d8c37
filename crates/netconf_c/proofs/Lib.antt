mod Copied
mod Fault
mod Opened
mod Ran
mod Unaccepted
