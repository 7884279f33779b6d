mod Cursors
mod Tags
mod LastTags
