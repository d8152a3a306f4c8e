pub mod SoundPositions
