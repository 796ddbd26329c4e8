pub mod StoppedLemmas
