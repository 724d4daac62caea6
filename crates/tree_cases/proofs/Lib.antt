mod Arguments
mod Entering
mod Starts
