mod Shaping
