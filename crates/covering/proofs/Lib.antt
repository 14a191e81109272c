mod Part
mod Run
mod Running
