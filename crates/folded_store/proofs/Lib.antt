pub mod FitLemmas
pub mod BegunLemmas
pub mod MapLemmas
pub mod SearchLemmas
pub mod UndoLemmas
