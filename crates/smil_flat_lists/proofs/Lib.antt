mod CutLists
