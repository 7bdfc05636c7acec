mod SentStands
