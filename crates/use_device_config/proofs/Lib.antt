mod Saved
