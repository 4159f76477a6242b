mod Blanks
mod HeldList
