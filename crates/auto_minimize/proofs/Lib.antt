mod MergedPairs
