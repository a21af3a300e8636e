mod RegionProofs
mod TableProofs
