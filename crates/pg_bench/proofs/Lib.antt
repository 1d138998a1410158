mod Bounds
mod CountedItems
mod EdgesBelow
mod Known
mod Others
mod Paired
mod Sending
mod Sums
