-- The closed-loop lag, TS 26.073 Pitch_fr at 7.4 kbit/s: what the contracts of `pitch_search` cite, a search's inputs as one value, the statement on the kept start, searches of a player, and previews.
pub mod Searches
pub mod Inputs
pub mod Previews
pub mod Statement
pub mod Players
pub mod Opens
