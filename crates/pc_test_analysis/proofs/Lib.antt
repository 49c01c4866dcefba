-- graphs without adapters, and modules with few imports
mod ContextLemmas
