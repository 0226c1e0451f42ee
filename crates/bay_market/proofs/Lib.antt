mod Explained
mod Told
