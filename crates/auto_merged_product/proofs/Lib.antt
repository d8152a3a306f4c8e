mod PairSpots
mod NumberedPairs
mod KeyMemos
