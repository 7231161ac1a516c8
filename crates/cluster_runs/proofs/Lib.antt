mod OneSite
mod Beginning
mod Ticking
mod Telling
mod Deciding
mod Quieted
