mod Instrs
mod Seconds
mod Whole
