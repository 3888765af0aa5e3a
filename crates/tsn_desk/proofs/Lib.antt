mod Closing
mod Everywhere
mod Keeps
mod Outside
mod Parts
mod Totals
