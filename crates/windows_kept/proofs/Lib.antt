pub mod WelcomesGo
pub mod WelcomesPieces
pub mod PlacesHave
pub mod WindowsServer
pub mod WindowsShort
pub mod WindowsMoves
