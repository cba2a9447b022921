mod Ends
mod Pieces
