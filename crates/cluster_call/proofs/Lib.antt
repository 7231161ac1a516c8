mod AddLemmas
mod BuiltLemmas
mod FitLemmas
mod PrintLemmas
mod PutLemmas
mod RunSteps
mod StatusLemmas
mod WalkLemmas
