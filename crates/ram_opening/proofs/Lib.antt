mod OpeningLines
mod Openings
