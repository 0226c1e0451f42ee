pub mod CutAsk
