pub mod RoundMoves
