mod Viewing
