mod Input
mod Text
