mod SameWords
