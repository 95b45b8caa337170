mod FileBytes
mod OriginalImages
mod QuickImages
