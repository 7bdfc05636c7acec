mod Sends
