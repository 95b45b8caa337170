mod Found
mod LabelMaps
mod Lines
mod Places
mod Steps
