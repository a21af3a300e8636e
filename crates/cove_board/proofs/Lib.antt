mod Seating
mod Ruling
mod Moving
mod Allowing
mod Holding
mod Opening
mod Dealing
