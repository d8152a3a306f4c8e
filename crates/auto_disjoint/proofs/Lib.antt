mod MetPairs
mod MetNodes
mod Apartness
