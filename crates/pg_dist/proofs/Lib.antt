mod Seating
mod Slots
mod Steps
