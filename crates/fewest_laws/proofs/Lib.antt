mod Using
mod Reading
mod Bent
mod Zoned
