mod Echoing
